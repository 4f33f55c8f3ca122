pub mod Greatest
pub mod Parts
pub mod Reaching
