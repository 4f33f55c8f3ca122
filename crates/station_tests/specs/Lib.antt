-- Stations of tests.
pub mod Line
