pub mod Faults
pub mod Given
pub mod Laws
pub mod Reading
pub mod Scattering
pub mod Sources
