pub mod Admitting
pub mod Counting
pub mod Drawing
pub mod Making
