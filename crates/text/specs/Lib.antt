pub mod Answer
pub mod Refusals
pub mod Steps
