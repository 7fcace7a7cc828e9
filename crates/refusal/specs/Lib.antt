-- What an answer is as one number.
pub mod Signed
pub mod laws
