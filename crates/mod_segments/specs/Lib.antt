pub mod Chunks
pub mod Listed
pub mod Pieces
pub mod Records
pub mod Writing
