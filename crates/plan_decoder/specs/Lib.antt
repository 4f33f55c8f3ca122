-- What values of a base's variables give.
pub mod Decoded
pub mod Laws
pub mod Plans
