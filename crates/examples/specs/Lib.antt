-- Document 01's examples.
pub mod Examples
pub mod laws
