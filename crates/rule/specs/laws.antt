-- What is proved of the rules' definitions.
pub mod Tree
pub mod Findings
pub mod Few
