-- Rules by number. Definitions here, in the order of document 01; what is proved in laws.
pub mod Second
pub mod Form
pub mod Expr
pub mod Meaning
pub mod Breaks
pub mod Findings
pub mod laws
