-- What is known of a design, of a plan's commands and of its run.
pub mod Tables
pub mod Paths
pub mod Goals
pub mod Runs
