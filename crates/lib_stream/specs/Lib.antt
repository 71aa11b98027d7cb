pub mod Sources
pub mod Agreed
pub mod Failing
