-- What the laws say of routes and of progress.
pub mod Elementary
pub mod Progress
pub mod Overlaps
pub mod Standing
pub mod Tails
pub mod Plans
pub mod Speeds
