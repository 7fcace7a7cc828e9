-- What is proved of the rows of linked items.
pub mod Found
pub mod Reach
