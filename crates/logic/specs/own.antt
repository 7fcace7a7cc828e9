-- What the contracts of tests say: no promise of an entry point mentions it.
pub mod Decides
