pub mod Attributes
pub mod Parts
pub mod Answers
pub mod Header
pub mod Order
pub mod Directory
pub mod Places
