pub mod Units
pub mod Within
