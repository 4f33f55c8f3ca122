-- What a history says of the requirements.
pub mod Ticks
pub mod Violations
