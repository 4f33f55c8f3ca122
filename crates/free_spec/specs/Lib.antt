-- The free move: how far a train can come in a tick, however other trains move.
pub mod Free
pub mod Legs
pub mod Runs
