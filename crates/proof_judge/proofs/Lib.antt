pub mod Living
pub mod Deciding
pub mod Showing
pub mod Below
pub mod Sound
pub mod Under
pub mod Within
