pub mod Addresses
pub mod Blocks
pub mod Extents
pub mod Over
pub mod Room
