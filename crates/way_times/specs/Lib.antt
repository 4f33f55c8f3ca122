-- How long a train takes with nothing in its way.
pub mod Times
