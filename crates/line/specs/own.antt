-- The code's own records, which no promise mentions.
pub mod Walk
pub mod Number
