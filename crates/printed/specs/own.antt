-- The printed lines of one rule: no promise of an entry point mentions it.
pub mod Lines
