pub mod Answers
pub mod Cards
pub mod Decks
