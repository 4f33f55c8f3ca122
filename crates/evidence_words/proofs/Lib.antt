pub mod Each
pub mod So
