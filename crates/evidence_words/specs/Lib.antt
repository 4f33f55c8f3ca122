-- What bounds mean, in sentences with the names of the design.
pub mod Bounds
pub mod Sentences
pub mod Laws
pub mod Ends
pub mod Failings
pub mod So
