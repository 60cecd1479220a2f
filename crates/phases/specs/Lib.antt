pub mod Coded
pub mod Codec
