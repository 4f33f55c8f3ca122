-- Lines on greatest times, one after another.
pub mod Lining
pub mod Numbering
