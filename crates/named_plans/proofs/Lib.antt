mod Trailing
mod Spaced
pub mod Back
mod Shown
mod Gathered
mod Shallow
pub mod Again
mod Floats
mod Empty
mod Lines
