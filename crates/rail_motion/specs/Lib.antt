-- What a motor and the track ahead mean, in natural numbers, and the distance of full braking.
pub mod Ranges
pub mod Motor
pub mod Track
pub mod Permitted
pub mod Braking
pub mod Obstacles
