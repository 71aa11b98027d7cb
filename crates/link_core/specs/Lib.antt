pub mod Linking
pub mod Links
pub mod Modules
pub mod Programs
pub mod Sets
