pub mod Ending
pub mod Counting
pub mod LegRoutes
pub mod OwnShared
pub mod Joining
pub mod Openings
pub mod Earlier
pub mod Begun
