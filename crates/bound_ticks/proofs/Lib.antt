pub mod Adding
pub mod Longer
pub mod Least
pub mod Chained
pub mod Aheads
pub mod Requiring
pub mod Naming
