-- How many literals there are, and how many steps can be asked for.
pub mod Counts
pub mod Counted
pub mod Limits
pub mod EvenLimits
pub mod Lines
