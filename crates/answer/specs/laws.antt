-- What is proved of questions for a finding, and of what is printed.
pub mod Asked
pub mod Reply
