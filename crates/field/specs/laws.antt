-- What is proved of fields.
pub mod Code
pub mod Words
pub mod Names
pub mod Right
pub mod Tag
pub mod Entry
pub mod Table
pub mod Declared
pub mod Looked
pub mod Proposition
