-- What is proved of counting and seeking findings.
pub mod Refusals
pub mod Demand2
pub mod Sorted
pub mod Listed
pub mod Cursor
pub mod Search
