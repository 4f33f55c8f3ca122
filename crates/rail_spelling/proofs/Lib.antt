mod Numbers
mod Agreeing
mod Entries
mod Sections
mod One
mod Once
mod Values
mod Tables
mod Reading
mod Spelled
pub mod Unique
mod Plans
pub mod Asked
