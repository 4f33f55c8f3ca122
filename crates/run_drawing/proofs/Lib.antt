mod Kept
pub mod Telling
