pub mod Kinds
pub mod Reserved
pub mod Sound
