pub mod Standing
pub mod Writes
pub mod Zeros
