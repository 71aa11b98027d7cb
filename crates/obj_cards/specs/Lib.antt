pub mod Faults
pub mod Columns
pub mod Esd
pub mod Txt
pub mod Rld
pub mod End
pub mod Cards
pub mod Flags
