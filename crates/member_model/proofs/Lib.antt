pub mod Cutting
pub mod Runs
pub mod Fetching
pub mod Gathered
