-- The names by which routes are shown.
pub mod Shown
pub mod Laws
pub mod Edges
pub mod Values
