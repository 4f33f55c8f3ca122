-- The legs of a certificate by the numbers of their routes, and the ticks that they take.
pub mod Walks
pub mod Looks
pub mod Chains
pub mod Ahead
pub mod Claims
pub mod Rides
