-- What `rcv_why` answers.
pub mod Heads
pub mod Answers
pub mod Designs
pub mod Plans
pub mod Replies
pub mod Shows
pub mod Laws
