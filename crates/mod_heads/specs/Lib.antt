pub mod Cut
pub mod Noted
