-- What several proofs of a rule's form share.
pub mod All
