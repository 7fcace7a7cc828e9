-- The statement or the rule that a line says. Definitions here; the code's own records in own, what is proved in laws.
pub mod Read
pub mod Meant
pub mod own
pub mod laws
