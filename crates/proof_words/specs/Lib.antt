-- What a proof file says of a design, in sentences.
pub mod Denied
pub mod Meanings
pub mod Named
pub mod Explained
pub mod Said
pub mod Summaries
