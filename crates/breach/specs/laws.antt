-- What is proved of a rule's plan.
pub mod Pairs
pub mod Plan
