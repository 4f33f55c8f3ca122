pub mod Looks
pub mod Sections
pub mod Ends
pub mod Entries
