pub mod Alone
pub mod InBlock
pub mod Fitting
pub mod Texts
pub mod Writing
