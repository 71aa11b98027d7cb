pub mod FilesLemmas
pub mod ReadSoFar
pub mod TextSoFar
