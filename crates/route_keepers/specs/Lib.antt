-- Which routes can keep a train from a section of another.
pub mod Keepers
pub mod Chains
pub mod Sharing
