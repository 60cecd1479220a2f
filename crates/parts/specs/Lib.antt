pub mod Coded
pub mod Promises
pub mod Steps
pub mod Refusals
