-- Laws of runs: which trees OVERLAY statements give, and what holds of a written member while it runs.
pub mod Agreement
pub mod Answers
pub mod Bringing
pub mod EntryTables
pub mod Fields
pub mod Grown
pub mod Needed
pub mod Running
pub mod Standing
pub mod Starts
pub mod Residents
