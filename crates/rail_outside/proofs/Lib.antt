pub mod Kept
pub mod Printing
