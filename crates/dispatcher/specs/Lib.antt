-- Queues of commands by section, and the waits that they give.
pub mod Queues
pub mod Waits
pub mod Planned
pub mod Turned
