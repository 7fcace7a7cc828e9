-- What is proved of moving a store to the other size.
pub mod Width
pub mod Carry
pub mod Moved
pub mod Stable
