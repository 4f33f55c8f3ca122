pub mod Known
pub mod ClauseOrder
pub mod Holding
mod Parts
mod Putting
mod Numbering
mod Rising
mod Settling
mod Saying
mod Ordering
mod Nothing
mod Fitting
