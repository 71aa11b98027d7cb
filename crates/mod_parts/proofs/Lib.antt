pub mod Addressed
pub mod Bucketed
pub mod Complete
pub mod Counted
pub mod Numbered
pub mod Present
pub mod Symbolled
pub mod Targeted
