pub mod Turns
pub mod Begun
pub mod Behind
pub mod Reading
