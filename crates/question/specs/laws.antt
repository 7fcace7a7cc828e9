-- What is proved of questions.
pub mod Asked
