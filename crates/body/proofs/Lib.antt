-- What several proofs of a query's body share.
pub mod Nodes
