-- What a question about a sheet asks for. Definitions here; what is proved of them in laws, what only the code speaks of in own.
pub mod Question
pub mod own
pub mod laws
