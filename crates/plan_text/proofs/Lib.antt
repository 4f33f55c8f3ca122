pub mod Names
pub mod Plain
pub mod Ordered
pub mod ReadBack
pub mod Trains
