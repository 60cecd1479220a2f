pub mod Tracker
pub mod Fed
pub mod Begun
pub mod Lexer
pub mod Call
pub mod Question
pub mod History
