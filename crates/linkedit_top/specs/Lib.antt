pub mod Again
pub mod ByProgram
pub mod Deciding
pub mod Go
pub mod Headline
pub mod Outcome
