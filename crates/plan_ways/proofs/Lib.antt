-- The paths of live routes, and the ways among them.
pub mod Following
pub mod Pathing
pub mod Counting
pub mod Enumerating
