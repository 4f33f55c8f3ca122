pub mod Leading
pub mod Marking
pub mod Searching
pub mod Turning
