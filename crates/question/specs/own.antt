-- How a question is taken apart: no promise of an entry point mentions it.
pub mod Asked
