pub mod Ranges
pub mod Utf8
pub mod Text
pub mod Direction
pub mod Steps
pub mod Unfinished
