pub mod Finding
pub mod Missing
pub mod Telling
pub mod Agreeing
pub mod Doing
pub mod Numbered
pub mod Verdicting
