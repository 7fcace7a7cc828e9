-- What the fields of a line name, and the statement that a line says. Definitions here; what is proved of them in laws.
pub mod Stated
pub mod laws
