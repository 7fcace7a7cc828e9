-- What is proved of the words that the statements change.
pub mod LinkRows
