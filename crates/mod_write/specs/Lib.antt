pub mod Chained
pub mod Items
pub mod Naming
pub mod Ready
pub mod Stowable
pub mod Written
