mod Rows
pub mod Releasing
pub mod Agreement
pub mod Orderly
pub mod Prefixes
pub mod Saying
pub mod Sorted
pub mod Further
pub mod Naming
pub mod Fitting
pub mod Visiting
pub mod SameVisits
pub mod Failing
pub mod Refusing
