-- Walks and ways of trains.
pub mod Ways
pub mod Laws
