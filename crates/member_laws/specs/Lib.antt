-- Laws of written members: which programs they are about, what their records hold, that they are good, and what they
-- have in storage.
pub mod Gathered
pub mod Laws
pub mod Linkable
pub mod Stands
pub mod Storing
