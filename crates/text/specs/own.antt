-- What the functions on bytes do: no promise of an entry point mentions it.
pub mod Split
pub mod Chunk
