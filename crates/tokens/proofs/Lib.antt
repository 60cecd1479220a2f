pub mod Tiling
pub mod OpenQasm
pub mod Agree
pub mod Profiles
