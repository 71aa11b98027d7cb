pub mod Answers
pub mod Gathered
pub mod Judged
pub mod Numbering
pub mod Placed
