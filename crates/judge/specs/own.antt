-- How findings are sought: no promise of an entry point mentions it.
pub mod Cursor
pub mod Search
