-- What is wrong with a line. Definitions here; the code's own records in own, what is proved in laws.
pub mod Fault
pub mod own
pub mod laws
