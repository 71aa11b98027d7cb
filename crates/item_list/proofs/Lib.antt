pub mod LabelLists
pub mod Rows
