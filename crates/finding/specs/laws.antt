-- What is proved of why an item is a finding.
pub mod Finding
pub mod Explained
pub mod Settled
