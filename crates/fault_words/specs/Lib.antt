pub mod Entries
pub mod Names
pub mod Tracks
pub mod Limits
pub mod Faults
pub mod Words
pub mod Forms
pub mod Laws
