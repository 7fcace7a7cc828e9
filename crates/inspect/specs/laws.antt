-- What is proved of the tests.
pub mod Below
pub mod Test
