-- What is proved of one look at a line.
pub mod Field
pub mod Ends
pub mod Scan
pub mod Mask
