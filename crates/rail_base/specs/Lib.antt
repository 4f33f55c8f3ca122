-- What a design itself says: entries by number, ends, numbers per tick, and which designs are admitted.
pub mod Numbering
pub mod Members
pub mod Stations
pub mod Names
pub mod Routes
pub mod Admitted
pub mod Admission
pub mod Events
