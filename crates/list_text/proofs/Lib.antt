pub mod Joining
pub mod Placing
pub mod WritableNames
pub mod CardReading
pub mod StatementCards
pub mod CardSizes
