-- What a certificate names, held against an interlocking.
pub mod Named
pub mod Covering
pub mod Covered
