-- What a railway design and a plan mean: track and routes, plans, motion, runs, requirements and safety.
pub mod Track
pub mod Plans
pub mod Motion
pub mod Places
pub mod Dispatches
pub mod Visits
pub mod Requirements
pub mod Verdict
pub mod Histories
pub mod Feasible
pub mod Safety
