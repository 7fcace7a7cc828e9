-- Findings and queries as plain words. Definitions here, what the code's parts do in own, what is proved in laws.
pub mod Promise
pub mod own
pub mod laws
