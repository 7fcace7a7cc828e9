-- The rows of an expression: what the functions do stands in own, that this is what the expression holds of in laws.
pub mod own
pub mod laws
