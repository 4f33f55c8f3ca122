pub mod Walks
pub mod Ranges
pub mod Empty
pub mod Orders
pub mod Placed
pub mod Marked
pub mod Starts
pub mod Contending
mod Joined
