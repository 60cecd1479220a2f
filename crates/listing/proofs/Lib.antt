pub mod Whole
pub mod Unique
pub mod Starts
pub mod Told
