-- What judgements of single records and items answer.
pub mod Heads
pub mod Kept
pub mod Matching
pub mod Segments
pub mod Stages
pub mod Symbols
