-- Why a cell is true: lines of a sheet from which it follows, and from no part of them. Definitions here; what is proved of them in laws, what only the code speaks of in own.
pub mod Reason
pub mod Listed
pub mod Rising
pub mod Explained
pub mod Promise
pub mod Settled
pub mod own
pub mod laws
