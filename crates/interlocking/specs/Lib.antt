-- The sections of routes, and what plans are.
pub mod Sections
pub mod Plans
