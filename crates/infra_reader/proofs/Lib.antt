mod Places
mod Walking
mod Repeats
mod Visits
mod Numbers
mod AllOf
mod MotorSeen
mod Placeless
pub mod Apart
mod Sections
pub mod EndCounts
mod Ranges
mod Dwells
mod Seconds
mod Admitted
mod Phases
pub mod Spelling
mod Resolved
pub mod Reading
