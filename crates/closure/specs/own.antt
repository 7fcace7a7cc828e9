-- What adding a statement leaves: no promise of an entry point mentions it.
pub mod Applied
