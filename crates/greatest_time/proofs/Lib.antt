pub mod Alike
pub mod InTime
pub mod Admitted
