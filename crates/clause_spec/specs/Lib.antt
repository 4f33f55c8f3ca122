-- The variables and the clauses of the base of a design, and the model of a plan.
pub mod Variables
pub mod Clauses
pub mod Models
pub mod Laws
