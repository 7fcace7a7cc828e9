-- What the test asks is what a closed store is.
pub mod RoleBits
pub mod Clean
pub mod Pairs
pub mod Passed
pub mod Asked
pub mod Closed
