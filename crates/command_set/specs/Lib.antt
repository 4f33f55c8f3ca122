-- Sets of commands.
pub mod Blocks
pub mod Commands
pub mod Rows
pub mod Laws
