pub mod Refused
pub mod Unread
pub mod Faults
