-- What is proved of the store's definitions.
pub mod Least
pub mod Reflexive
pub mod Turn
pub mod Parts
pub mod Proposition
pub mod Cells
pub mod Keeps
pub mod Laid
pub mod Width
pub mod Look
pub mod Halves
