-- The ways that a plan can give a train.
pub mod Paths
pub mod Visits
