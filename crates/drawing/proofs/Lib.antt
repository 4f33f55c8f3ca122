pub mod Wording
pub mod Showing
pub mod Staying
pub mod Placing
