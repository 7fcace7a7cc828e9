-- The published closed-world reading of rules, source 000, and that the findings agree with it. Definitions here; the theorems in laws.
pub mod Interpretation
pub mod Known
pub mod Satisfied
pub mod Published
pub mod Examples
pub mod laws
