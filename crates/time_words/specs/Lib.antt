-- How quick trains can be, in words.
pub mod Numbers
pub mod Times
