pub mod Answers
pub mod Nodes
