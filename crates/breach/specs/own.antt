-- The plan of a rule and the places of its findings: no promise of an entry point mentions it.
pub mod Plan
