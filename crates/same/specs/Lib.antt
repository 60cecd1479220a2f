pub mod Compare
pub mod Places
pub mod Steps
pub mod Told
