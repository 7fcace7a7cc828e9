-- Lines told to be statements with nothing wrong. The code's own records in own, what is proved of them in laws.
pub mod own
pub mod laws
