pub mod Numbered
pub mod Places
pub mod Marks
pub mod Searching
pub mod Walking
pub mod Held
pub mod Faults
pub mod Tables
