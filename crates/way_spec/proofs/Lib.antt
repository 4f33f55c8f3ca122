pub mod Paths
pub mod Shortening
pub mod Most
