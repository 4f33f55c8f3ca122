pub mod Gathered
pub mod Tabled
pub mod Placing
pub mod Listed
pub mod Distinct
pub mod Sized
