pub mod Segments
pub mod Writable
pub mod Texts
