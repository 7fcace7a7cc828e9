-- Tests of the rows of a list of words: what they ask stands in own, what is proved of it in laws.
pub mod own
pub mod laws
