pub mod Ending
pub mod Clearing
pub mod Coming
pub mod Links
pub mod Hops
pub mod HopLaws
pub mod Walks
pub mod Rides
pub mod Visits
pub mod Premises
pub mod Backwards
pub mod Meeting
pub mod Chains
pub mod Certified
mod Rows
