-- What is proved of lines told to be statements.
pub mod Quick
