-- What is proved of answers as signed numbers.
pub mod Signed
