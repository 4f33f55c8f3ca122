-- Lemmas on the sections of routes.
pub mod Sectioned
