-- Lemmas on words of bits.
pub mod Words
