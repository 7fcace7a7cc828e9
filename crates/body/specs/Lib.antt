-- The body of a query. Definitions here, in the order of document 01; what is proved of them in laws, what only the code speaks of in own.
pub mod Body
pub mod Translation
pub mod Length
pub mod own
pub mod laws
