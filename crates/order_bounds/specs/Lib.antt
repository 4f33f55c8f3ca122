-- What the orders of a design say before the first plan.
pub mod Orders
pub mod Asked
