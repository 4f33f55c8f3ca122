pub mod Alike
pub mod Turning
pub mod Retold
pub mod Models
pub mod Ranges
pub mod Left
pub mod Staying
