-- Graphs, and in how many steps they lead from node to node.
pub mod Graphs
pub mod Marks
