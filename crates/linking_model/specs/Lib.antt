-- Definitions of linking: what is kept of modules, segments, places, overlay tables, linked bytes and runs. Each file
-- says what in it follows GC28-6538 and what is this project's profile.
pub mod Cases
pub mod Decks
pub mod Dumps
pub mod Kept
pub mod Laws
pub mod Linked
pub mod Merged
pub mod Names
pub mod Numbers
pub mod Places
pub mod Points
pub mod Run
pub mod Scattered
pub mod Settled
pub mod TableBytes
pub mod Tables
pub mod Tree
