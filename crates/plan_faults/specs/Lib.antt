pub mod Commands
pub mod Reasons
pub mod Kept
pub mod Laws
