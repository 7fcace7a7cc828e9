-- What other languages get.
pub mod Code
pub mod Check
pub mod Why
pub mod laws
