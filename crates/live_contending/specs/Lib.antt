-- Pairs of commands that contend, by rows of routes that share a section.
pub mod Rows
pub mod Pairs
pub mod Rivals
