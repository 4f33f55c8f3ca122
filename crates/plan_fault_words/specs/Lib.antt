pub mod Unread
pub mod Faults
