pub mod Fresh
pub mod Lists
pub mod Parts
pub mod Rising
pub mod Seeing
pub mod Sorting
