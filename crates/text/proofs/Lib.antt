pub mod Checks
pub mod Marks
pub mod Room
pub mod OneResult
