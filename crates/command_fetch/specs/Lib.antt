pub mod Fetch
pub mod Placed
