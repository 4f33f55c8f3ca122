pub mod Extents
pub mod Starts
pub mod Finding
pub mod Lines
pub mod Answers
pub mod Texts
