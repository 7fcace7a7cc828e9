-- Why an item is a finding. Definitions here; what is proved of them in laws, what only the code speaks of in own.
pub mod Explained
pub mod Finding
pub mod Settled
pub mod own
pub mod laws
