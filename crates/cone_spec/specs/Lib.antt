-- Cones: their runs, which of them are valid, and what each says of all plans.
pub mod Cones
pub mod Validity
pub mod Clauses
pub mod Laws
