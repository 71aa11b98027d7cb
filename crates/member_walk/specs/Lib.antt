-- What a walk over the records of a member keeps, and what its calls answer.
pub mod Fields
pub mod Laws
pub mod Segments
pub mod Steps
pub mod Told
pub mod Walked
