-- Definitions of load modules over their records and directory data: good members, storage, calls, written members,
-- and what it means to stand for a program. Each file says what in it follows GC28-6538 and what is this project's
-- profile.
pub mod AfterFailure
pub mod ByteRun
pub mod Calling
pub mod Cases
pub mod Chunks
pub mod Cuts
pub mod Facts
pub mod Faults
pub mod Fetched
pub mod FirstBad
pub mod Laws
pub mod Loaded
pub mod Parts
pub mod Pieces
pub mod Placing
pub mod ReadBack
pub mod Reblocked
pub mod Relink
pub mod Segments
pub mod Spelled
pub mod StandsFor
pub mod Starting
pub mod Symbols
pub mod SymbolList
pub mod Written
