-- Clauses that keep trains that are alike in turn.
pub mod Turns
pub mod Sorted
