-- The findings of a rule, and of all rules of a sheet, in the caller's list. Definitions here; what is proved of them in laws, what only the code speaks of in own.
pub mod Promise
pub mod own
pub mod laws
