-- What is proved of fields by their number, and of statements.
pub mod Fields
pub mod Stated
