pub mod Ends
pub mod Unknown
pub mod Reasons
pub mod Kept
pub mod Laws
