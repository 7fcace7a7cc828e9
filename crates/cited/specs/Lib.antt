-- The text of a reason. Definitions here; what is proved of them in laws, what only the code speaks of in own.
pub mod Text
pub mod own
pub mod laws
