pub mod Running
pub mod Sooner
