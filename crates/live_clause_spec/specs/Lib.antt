-- Live commands, and the base that has no others.
pub mod Live
pub mod Variables
pub mod Clauses
pub mod Listed
pub mod Models
pub mod Laws
