-- What follows from statements is kept. Definitions here, in the order of document 01; what is proved of them in laws, what only the code speaks of in own.
pub mod Refusal
pub mod Promise
pub mod Lines
pub mod own
pub mod laws
