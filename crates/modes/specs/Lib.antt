pub mod Modes
pub mod Errors
pub mod Numbers
