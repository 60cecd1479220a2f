pub mod Tiling
pub mod Profiles
pub mod Members
