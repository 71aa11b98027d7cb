pub mod Answers
pub mod Laid
pub mod Maps
pub mod Reach
pub mod Seen
pub mod Sizes
pub mod Starts
