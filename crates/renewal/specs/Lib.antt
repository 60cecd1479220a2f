pub mod Key
pub mod Rules
pub mod Promises
pub mod Steps
