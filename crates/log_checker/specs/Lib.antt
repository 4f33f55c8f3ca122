pub mod Verdict
pub mod Truth
pub mod Words
pub mod Laws
pub mod Faults
