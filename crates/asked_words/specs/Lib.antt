pub mod Quantities
pub mod Asked
