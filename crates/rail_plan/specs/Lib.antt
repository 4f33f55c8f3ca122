-- Where plans can't be carried out.
pub mod Named
pub mod Ahead
pub mod Holds
pub mod Executable
pub mod Normal
pub mod Earlier
pub mod Reading
pub mod Text
pub mod WellFormed
pub mod Interlocked
pub mod Laws
