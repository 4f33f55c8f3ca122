-- What `rcv_draw` answers.
pub mod Wanted
pub mod Words
pub mod Answers
pub mod Replies
pub mod Laws
