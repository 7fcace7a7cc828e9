-- What is proved of a query's answers.
pub mod Says
pub mod Fresh
