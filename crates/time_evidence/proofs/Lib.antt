pub mod Tighter
pub mod Cones
pub mod Bounds
pub mod Bases
pub mod LessTime
pub mod Logs
