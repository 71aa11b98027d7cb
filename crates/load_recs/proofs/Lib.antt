pub mod ItemLists
pub mod Walking
pub mod ItemsAgain
pub mod RecordsAgain
pub mod Plain
pub mod Spelled
pub mod ItemsSpelled
