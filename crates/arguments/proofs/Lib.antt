pub mod Asked
pub mod Listing
pub mod Unique
