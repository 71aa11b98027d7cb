pub mod ItemLists
pub mod Reading
pub mod SymbolLists
