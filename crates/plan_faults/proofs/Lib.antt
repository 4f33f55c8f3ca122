pub mod Finding
pub mod Reasoned
pub mod Refused
