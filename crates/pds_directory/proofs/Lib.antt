pub mod Blocks
pub mod Walk
pub mod Owners
pub mod Halving
