-- Visits, as the definitions of certificates have them.
pub mod Visits
