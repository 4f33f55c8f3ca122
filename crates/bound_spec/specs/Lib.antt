-- Lower bounds on the ticks between what happens in a run, however other trains move.
pub mod Events
pub mod Walks
pub mod Rides
pub mod Certificates
pub mod Clauses
pub mod Validity
pub mod Hops
