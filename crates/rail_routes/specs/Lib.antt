-- What the search for routes keeps while it works.
pub mod Ends
pub mod Paths
pub mod Levels
pub mod Pending
pub mod Walks
pub mod Refusals
