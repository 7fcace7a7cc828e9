-- What is proved of the statements and rules that lines say.
pub mod Read
pub mod Nodes
pub mod Parse
pub mod Rules
pub mod Within
pub mod Formed
