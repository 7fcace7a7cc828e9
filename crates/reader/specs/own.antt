-- What the functions on lines do: no promise of an entry point mentions it.
pub mod Field
pub mod Scan
