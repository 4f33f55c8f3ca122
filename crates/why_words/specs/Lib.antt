-- What the words of `rcv_why` ask for.
pub mod Wanted
pub mod Words
pub mod Laws
