-- What a picture of a run says.
pub mod Laws
pub mod Requirements
pub mod Words
