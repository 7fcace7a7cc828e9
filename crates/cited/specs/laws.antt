-- What is proved of writing the lines of a reason.
pub mod Writing
