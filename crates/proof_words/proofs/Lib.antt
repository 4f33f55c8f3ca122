pub mod Naming
pub mod Firsts
pub mod Pieces
