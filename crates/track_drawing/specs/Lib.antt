-- What a picture of a track says.
pub mod Words
pub mod Edges
