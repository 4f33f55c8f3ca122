-- Sets of numbers.
pub mod Words
pub mod Sets
