pub mod Cuts
pub mod Fitting
pub mod Recorded
pub mod Summed
