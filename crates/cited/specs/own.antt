-- How the lines of a reason are written: no promise of an entry point mentions it.
pub mod Writing
