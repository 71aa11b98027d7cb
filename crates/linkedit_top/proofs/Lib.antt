pub mod BuiltWords
pub mod Decided
pub mod Headline
pub mod PrintedPrograms
pub mod ReadAgain
