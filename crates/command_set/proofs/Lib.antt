pub mod Gathering
pub mod Blocks
pub mod InRow
pub mod Alike
pub mod Standing
pub mod Lists
pub mod Tests
