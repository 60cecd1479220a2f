pub mod RulesOut
pub mod Numbers
