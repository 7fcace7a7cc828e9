-- Queries. What compiling a rule promises here; what is proved of it in laws, what only the code speaks of in own.
pub mod Outcome
pub mod Promise
pub mod own
pub mod laws
