mod Held
mod Nodes
mod Outcomes
mod Releases
mod Rows
mod Searching
mod Shown
mod Waited
