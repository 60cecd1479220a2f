pub mod Samples
pub mod RulesOut
