pub mod Ranges
pub mod Timed
pub mod Reading
pub mod Checking
pub mod Outcomes
pub mod Using
pub mod Showing
