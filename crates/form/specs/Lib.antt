-- The form of a rule by number. There is nothing to believe here: what is proved in laws.
pub mod laws
