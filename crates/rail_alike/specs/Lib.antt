-- Trains that are alike, plans in which they are exchanged, and plans in which they come in turn.
pub mod Renaming
pub mod Alike
pub mod Tests
pub mod Turns
