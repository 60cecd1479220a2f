pub mod Cut
pub mod Unicode
pub mod Promises
pub mod Steps
