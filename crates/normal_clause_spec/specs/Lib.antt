-- The clauses that the model of each normal plan makes true.
pub mod Variables
pub mod Clauses
pub mod Models
pub mod Walks
pub mod Laws
pub mod Normal
