pub mod Held
pub mod Homes
pub mod Kept
pub mod Laws
pub mod Shifts
pub mod Sound
