pub mod Cutter
pub mod Exactly
pub mod Numbers
pub mod Records
pub mod Starts
pub mod Told
pub mod Underscores
