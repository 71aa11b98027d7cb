pub mod Content
pub mod Overwriting
pub mod Rewriting
pub mod Whole
