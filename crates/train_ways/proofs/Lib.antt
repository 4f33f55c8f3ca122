pub mod Visiting
pub mod Pairing
pub mod Reaching
pub mod Listing
pub mod Tallying
pub mod Answering
pub mod Standing
pub mod Summing
