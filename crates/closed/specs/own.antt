-- What the test asks: no promise of an entry point mentions it.
pub mod Closed
