pub mod FixedCommand
pub mod Requests
pub mod Words
pub mod Laws
