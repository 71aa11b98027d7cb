pub mod Entries
pub mod Lists
pub mod Placed
pub mod Primary
pub mod Rooted
pub mod Standing
pub mod Stowable
