pub mod Rules
pub mod Calls
pub mod Searched
pub mod Laws
