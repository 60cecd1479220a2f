pub mod Escapes
pub mod Bodies
pub mod Steps
pub mod Chars
pub mod Promises
pub mod Order
