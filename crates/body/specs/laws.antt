-- What is proved of the definitions of a query's body.
pub mod Body
pub mod Length
pub mod Writing
pub mod Capped
