pub mod Forms
pub mod Keys
pub mod Places
pub mod Reads
pub mod Sheet
pub mod Parsed
pub mod Texts
pub mod Toml
