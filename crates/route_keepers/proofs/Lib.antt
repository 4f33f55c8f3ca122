pub mod Listing
pub mod Stepping
