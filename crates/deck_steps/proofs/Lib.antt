pub mod Chunks
pub mod ObjectCards
pub mod Walking
