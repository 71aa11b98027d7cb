pub mod Answers
pub mod Parts
pub mod Stops
pub mod Told
