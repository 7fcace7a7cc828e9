-- The numbers of the C face. Definitions here, what is proved in laws.
pub mod Codes
pub mod laws
