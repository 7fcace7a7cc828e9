-- A store moved to the other size. Definitions here, in the words of document 02; what is proved of them in laws, what only the code speaks of in own.
pub mod Promise
pub mod Codes
pub mod own
pub mod laws
