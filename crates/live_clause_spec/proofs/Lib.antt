pub mod Lists
pub mod Falsing
pub mod Numbers
pub mod Spread
pub mod Few
pub mod Sorted
pub mod Base
pub mod Living
pub mod Shown
pub mod Leaving
pub mod ChainsLeft
pub mod Listing
pub mod Decoding
mod Rows
