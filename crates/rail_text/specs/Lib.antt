pub mod Numbers
pub mod Pieces
pub mod Lines
pub mod Cursors
pub mod Laws
pub mod Added
