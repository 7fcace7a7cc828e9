-- The code's own records, which no promise mentions.
pub mod Code
pub mod Table
pub mod Line
pub mod Known
