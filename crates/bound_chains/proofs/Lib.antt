pub mod Listed
pub mod Sharing
pub mod Visited
