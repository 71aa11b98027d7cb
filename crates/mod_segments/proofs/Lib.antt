pub mod Cut
pub mod Filled
pub mod Held
pub mod Recorded
pub mod Writing
