-- The store: definitions in the order of document 01; what is proved of them in laws, what only the code speaks of in own.
pub mod Cell
pub mod Layout
pub mod Keeps
pub mod own
pub mod laws
