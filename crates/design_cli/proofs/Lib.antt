pub mod Reporting
pub mod Reading
pub mod Asking
pub mod Comparing
pub mod Routes
pub mod ThereAndBack
pub mod Printed
