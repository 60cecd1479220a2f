pub mod Filling
pub mod Whole
pub mod Flat
pub mod Bridge
pub mod RulesOut
