-- What `rcv_design` answers.
pub mod Wanted
pub mod Words
pub mod Answers
pub mod Reports
pub mod Laws
