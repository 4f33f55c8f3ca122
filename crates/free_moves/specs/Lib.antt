-- Free moves on the track of a leg, and the ticks that they take.
pub mod Moves
pub mod Trips
