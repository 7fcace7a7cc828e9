-- How the words of a query are written: no promise of an entry point mentions it.
pub mod Writing
