-- What is answered of a proof.
pub mod Texts
pub mod Answers
pub mod Verdicts
