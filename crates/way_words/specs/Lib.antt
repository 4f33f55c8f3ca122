-- What the ways of trains say of a design.
pub mod Ways
