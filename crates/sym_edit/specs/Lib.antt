pub mod Counted
pub mod Without
pub mod Renamed
pub mod Edited
pub mod Cases
pub mod SoundWithout
