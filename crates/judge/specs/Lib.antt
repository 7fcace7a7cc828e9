-- Findings. Definitions here; what is proved of them in laws, what only the code speaks of in own.
pub mod Total
pub mod Promise
pub mod Demand2
pub mod own
pub mod laws
