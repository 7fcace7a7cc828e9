-- What is proved of lines.
pub mod Walk
pub mod Fault
pub mod Header
pub mod Some
pub mod Number
