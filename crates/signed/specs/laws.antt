-- What is proved of signed numbers.
pub mod Minus
