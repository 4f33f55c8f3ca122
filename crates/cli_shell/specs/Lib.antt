-- What the programs answer where no search is asked for, and how they read and refuse.
pub mod Statuses
pub mod Texts
pub mod Listings
pub mod Shows
pub mod Answers
pub mod Simulations
pub mod Verdicts
pub mod Replies
pub mod Prints
pub mod Uses
