pub mod Names
pub mod Dumping
