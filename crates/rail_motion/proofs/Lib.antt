pub mod Distances
pub mod Points
pub mod Rising
pub mod Skipping
pub mod Obstructing
pub mod Marking
pub mod Moves
