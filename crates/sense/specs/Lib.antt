-- What a query says. Definitions here; the theorems in laws.
pub mod Says
pub mod Demand2
pub mod laws
