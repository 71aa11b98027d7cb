pub mod Answers
pub mod Asked
pub mod Gathered
pub mod Named
pub mod Unfolded
pub mod Unfolding
