-- What is printed for a question about a sheet. Definitions here; what is proved of them in laws, what only the code speaks of in own.
pub mod Promise
pub mod own
pub mod laws
