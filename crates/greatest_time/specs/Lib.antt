-- Designs with another greatest time, and what stays the same there.
pub mod Times
pub mod Laws
