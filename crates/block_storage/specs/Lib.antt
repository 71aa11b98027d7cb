pub mod Storage
pub mod Texts
