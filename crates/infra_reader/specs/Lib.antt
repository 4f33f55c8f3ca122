-- The design in a document, or the first refusal: names, the station, and a list of places for each code.
pub mod Names
pub mod Unknown
pub mod Stations
pub mod Parts
pub mod Limits
pub mod Seen
pub mod Track
pub mod Traffic
pub mod Spelling
pub mod Keeping
pub mod Design
pub mod Laws
