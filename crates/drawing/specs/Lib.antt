-- Pictures, and the lines that show them.
pub mod Parts
pub mod Lines
pub mod Drawing
pub mod Laws
pub mod Names
