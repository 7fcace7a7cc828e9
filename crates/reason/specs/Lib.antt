-- Why a cell follows: parts of a list with nothing to spare. Definitions here; what is proved of them in laws, what only the search speaks of in own.
pub mod Part
pub mod own
pub mod laws
