-- What is proved of printed lines.
pub mod Lines
pub mod Written
pub mod Tally
