pub mod Machine
pub mod Phases
pub mod Newline
pub mod Changes
pub mod Feed
