-- What becomes of a sink when clauses are listed, and what a base is.
pub mod Sinks
pub mod Encoders
pub mod Tables
pub mod Waiting
pub mod Families
pub mod Waits
pub mod Orders
pub mod Numberings
pub mod Bases
pub mod Nodes
pub mod Releases
pub mod Normal
