pub mod Ranging
pub mod Riding
pub mod Leading
pub mod Looking
pub mod Asking
pub mod Waiting
