-- What a run shows of a plan, in words with the names of the design.
pub mod Visits
pub mod Requirements
pub mod Waits
pub mod Stands
pub mod Runs
pub mod Outcome
pub mod Laws
