-- Words as rows of bits: when a bit is set. What the functions on rows do stands in own, what is proved of it in laws.
pub mod Bit
pub mod own
pub mod laws
