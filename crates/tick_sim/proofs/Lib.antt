pub mod Marking
mod Gathering
mod Pairing
mod Moving
