pub mod Causes
pub mod Ending
pub mod Exits
pub mod Libraries
pub mod Reading
pub mod Refusing
pub mod Sets
