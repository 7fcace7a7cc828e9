-- Rules as plain words. Definitions here, what is proved in laws.
pub mod Rules
pub mod laws
