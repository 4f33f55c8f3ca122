pub mod Seen
pub mod Joining
