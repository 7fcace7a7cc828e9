-- What is proved of rules as words.
pub mod Rules
