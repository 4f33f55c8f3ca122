mod EdgeNames
mod Apart
pub mod Found
mod Turns
pub mod Texts
