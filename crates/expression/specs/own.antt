-- What the functions on rows do: no promise of an entry point mentions it.
pub mod Row
pub mod Tally
pub mod Lead
