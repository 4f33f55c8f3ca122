pub mod Counted
pub mod Making
pub mod Paired
pub mod Spelled
pub mod Saying
