pub mod Ucd
pub mod Order
pub mod Search
pub mod Properties
