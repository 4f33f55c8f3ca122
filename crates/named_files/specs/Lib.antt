-- Replies that are made of files by their names, and what is printed of them.
pub mod Replies
pub mod Reports
