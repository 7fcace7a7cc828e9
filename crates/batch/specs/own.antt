-- What the parts of the code do and ask, which no promise mentions.
pub mod Small
pub mod Turn
