pub mod Spelling
pub mod Image
pub mod Firsts
pub mod Lengths
pub mod Laws
