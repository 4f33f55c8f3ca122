-- What stays shown with less time.
pub mod Laws
