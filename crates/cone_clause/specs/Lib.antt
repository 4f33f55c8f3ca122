-- The clause of a cone as literals of the base.
pub mod Numbered
pub mod Contentions
pub mod Places
pub mod Laws
pub mod Spoken
