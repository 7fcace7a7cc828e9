-- What is proved of the rows of expressions.
pub mod Holding
pub mod Lead
pub mod Many
pub mod Tally
