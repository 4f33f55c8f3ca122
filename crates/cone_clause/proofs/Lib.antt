pub mod Known
pub mod ClauseOrder
pub mod Ordered
pub mod Agreeing
pub mod Sizes
pub mod Placed
pub mod Gathering
pub mod Signing
pub mod Walked
pub mod Routed
pub mod Further
pub mod Adding
pub mod Said
pub mod Left
pub mod Turning
mod Rows
mod Small
