pub mod Fetching
pub mod FieldLists
pub mod HeadLists
pub mod SegmentRecords
pub mod Textless
pub mod Walking
