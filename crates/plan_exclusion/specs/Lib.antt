-- Plans that fail, and what excludes them.
pub mod Failures
pub mod Exclusions
pub mod Written
pub mod Laws
