-- What is proved of parts, marks and steps.
pub mod Part
pub mod Narrow
pub mod Picked
pub mod Place
pub mod Flag
pub mod Code
pub mod Path
pub mod Steps
pub mod Walks
pub mod Reach
pub mod Seek
pub mod Found
pub mod Union
pub mod Aim
pub mod Join
pub mod Explain
