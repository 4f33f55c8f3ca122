-- Plans in which each route is the list of the names by which it is shown.
pub mod Text
pub mod Numbered
pub mod Laws
