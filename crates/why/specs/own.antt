-- How the statements are kept and the rule is found: no promise of an entry point mentions it.
pub mod Stating
pub mod Asked
pub mod Gather
pub mod Writing
