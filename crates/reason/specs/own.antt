-- Statements as numbers, marks on them, the steps by which a cell is reached, and what the search promises to those who call it.
pub mod Grows
pub mod Code
pub mod Walk
pub mod Picked
pub mod Promise
pub mod Seek
pub mod Steps
pub mod Fact
pub mod Aim
