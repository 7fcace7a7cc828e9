-- What the functions on linked rows do: no promise of an entry point mentions it.
pub mod Reach
