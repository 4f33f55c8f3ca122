-- The text of a search, and what it shows.
pub mod Logs
pub mod Laws
