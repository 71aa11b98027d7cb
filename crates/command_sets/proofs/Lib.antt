pub mod LibraryKinds
pub mod NamedSets
pub mod NamedWords
pub mod OutputSets
pub mod SetRefusals
pub mod SetsRead
pub mod Statuses
