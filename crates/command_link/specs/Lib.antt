pub mod Link
pub mod Stowing
