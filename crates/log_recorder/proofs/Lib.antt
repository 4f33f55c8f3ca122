pub mod Lines
pub mod Accepted
pub mod Appending
pub mod Denying
pub mod Searched
pub mod Staying
