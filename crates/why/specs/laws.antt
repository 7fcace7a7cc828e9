-- What is proved of reasons.
pub mod Reason
pub mod Long
pub mod Stating
pub mod Few
pub mod Gather
pub mod Listed
pub mod Rising
pub mod Explained
pub mod Settled
