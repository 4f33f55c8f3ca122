pub mod Bases
pub mod Within
