pub mod Passing
pub mod Judging
pub mod AnyShelf
pub mod Verdicts
pub mod Using
