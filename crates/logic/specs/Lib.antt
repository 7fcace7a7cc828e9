-- The ground floor: the lowest number that applies, how many there are. Definitions here; what is proved of them in laws, tests that decide in own.
pub mod Lowest
pub mod Number
pub mod own
pub mod laws
