pub mod Heads
pub mod Gains
pub mod Moves
pub mod Lower
pub mod Waiting
pub mod Following
