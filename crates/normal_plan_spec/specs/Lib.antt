-- Plans that run alike, and the normal plan of each that is feasible.
pub mod Alike
pub mod Normal
