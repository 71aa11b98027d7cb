pub mod Maps
pub mod References
pub mod Worked
