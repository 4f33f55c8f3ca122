pub mod Kept
pub mod Denied
pub mod Counted
pub mod ShownSo
