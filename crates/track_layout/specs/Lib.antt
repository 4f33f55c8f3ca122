-- What a layout says of the lines that it draws.
pub mod Lines
