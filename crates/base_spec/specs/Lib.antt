-- The clauses and the variables of each base, and values that make them true.
pub mod Bases
pub mod Laws
