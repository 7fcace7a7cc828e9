-- The proof of the examples.
pub mod Store
pub mod AtLeast
pub mod Rules
pub mod Queries
pub mod Proved
