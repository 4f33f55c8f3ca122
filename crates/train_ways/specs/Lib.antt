-- The pairs of a train: a route, and how many visits are made before it.
pub mod Pairs
pub mod Reached
pub mod Search
