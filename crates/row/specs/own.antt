-- What the functions on rows do: no promise of an entry point mentions it.
pub mod Bit
pub mod Row
pub mod Change
pub mod Pick
