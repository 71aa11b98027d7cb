pub mod Gathered
pub mod Held
pub mod Indexed
pub mod Listed
pub mod Looked
pub mod Numbered
pub mod Walked
