-- The text of a design, which the reader of designs gives back.
pub mod Texts
pub mod Fields
pub mod Laws
