-- What is proved of findings and queries as words.
pub mod Findings
pub mod Queries
