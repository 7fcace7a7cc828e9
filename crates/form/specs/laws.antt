-- What is proved of how often nodes are used.
pub mod Form
