-- What is proved of what is due.
pub mod Due
