pub mod Judged
pub mod Shows
pub mod Outcomes
pub mod Written
