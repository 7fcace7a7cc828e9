-- What is proved of the written list.
pub mod Written
pub mod Lists
pub mod Reads
