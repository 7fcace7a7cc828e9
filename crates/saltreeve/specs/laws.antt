-- What is proved of the answers as numbers, and of the sheet check.
pub mod Code
pub mod Check
pub mod Why
pub mod Bounds
