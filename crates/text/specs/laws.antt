-- What is proved of bytes.
pub mod Choice
pub mod Bytes
pub mod Split
pub mod Name
pub mod Text
pub mod Dates
pub mod Chunk
