pub mod Gaining
pub mod Stepping
pub mod Further
pub mod Least
