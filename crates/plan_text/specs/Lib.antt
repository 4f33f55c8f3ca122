-- The text of a plan.
pub mod Text
pub mod Laws
