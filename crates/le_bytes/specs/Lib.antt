pub mod Codes
pub mod Hashed
pub mod Names
pub mod Numbers
