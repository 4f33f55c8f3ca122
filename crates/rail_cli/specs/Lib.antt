-- What the program answers to each command line, and what its answers say.
pub mod Texts
pub mod Ended
pub mod Answers
pub mod Simulations
pub mod Checks
pub mod Stored
pub mod Times
pub mod Searches
pub mod Short
pub mod Passes
pub mod TimePasses
pub mod Trials
pub mod Verdicts
pub mod Replies
pub mod Prints
