pub mod Answering
pub mod Stopping
pub mod Comparing
pub mod Using
