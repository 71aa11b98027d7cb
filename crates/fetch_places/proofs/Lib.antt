pub mod Apart
pub mod Found
pub mod Rooms
pub mod Steps
