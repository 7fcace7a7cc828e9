-- What is proved of statements added one after the other.
pub mod Codes
pub mod Turn
pub mod Promise
