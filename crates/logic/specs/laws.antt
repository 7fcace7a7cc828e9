-- What is proved of the ground floor's definitions, and of writing lists.
pub mod Decides
pub mod Lowest
pub mod Number
pub mod Sets
