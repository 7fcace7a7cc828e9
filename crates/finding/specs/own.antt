-- How the rule is found and its sides are told: no promise of an entry point mentions it.
pub mod Sides
