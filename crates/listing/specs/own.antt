-- How the list is written: no promise of an entry point mentions it.
pub mod Listing
