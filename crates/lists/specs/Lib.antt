pub mod All
pub mod Cut
pub mod Eat
pub mod Over
pub mod Steps
