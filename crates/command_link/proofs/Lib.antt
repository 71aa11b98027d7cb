pub mod Names
pub mod PrimarySets
pub mod Refusals
pub mod Standing
pub mod StowedModules
