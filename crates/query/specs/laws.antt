-- What is proved of compiling.
pub mod Filled
pub mod Small
pub mod Promise
