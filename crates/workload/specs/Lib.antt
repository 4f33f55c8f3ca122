-- The station that is made from a number: what is drawn, and what is made of it.
pub mod Draws
pub mod Track
pub mod Traffic
pub mod Made
