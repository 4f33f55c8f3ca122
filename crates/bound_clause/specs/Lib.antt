-- The clause of a certificate as literals of the base.
pub mod Numbered
pub mod Said
pub mod Left
pub mod Spoken
pub mod Order
pub mod Laws
