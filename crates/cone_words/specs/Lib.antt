-- What cones mean, in sentences with the names of the design.
pub mod Phrases
pub mod Names
pub mod Routes
pub mod Times
pub mod Stops
pub mod Cones
pub mod So
