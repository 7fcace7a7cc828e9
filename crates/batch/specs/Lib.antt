-- Many statements added to a lent store. Definitions here; what the code's parts do in own, what is proved in laws.
pub mod Codes
pub mod Promise
pub mod own
pub mod laws
