-- Plans of one train alone, and the least of what they take.
pub mod Formed
pub mod Lesser
