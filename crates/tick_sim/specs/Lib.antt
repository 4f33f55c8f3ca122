-- Runs as the simulator makes them.
pub mod Running
pub mod Pairs
pub mod Rides
