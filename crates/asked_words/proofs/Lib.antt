pub mod Counted
pub mod Digits
