pub mod ObjectCards
