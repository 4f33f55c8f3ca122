pub mod Joining
pub mod So
