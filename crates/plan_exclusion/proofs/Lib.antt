pub mod Bounding
pub mod Denying
pub mod Failing
pub mod Failure
pub mod Forming
pub mod Modelling
pub mod Truth
pub mod Written
