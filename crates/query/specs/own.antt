-- How a whole query is written: no promise of an entry point mentions it.
pub mod Filling
