-- Laws that rest on a definition that a must-fail edit turns. Assumes nothing.
pub mod TheoremB
pub mod Lemmas
pub mod Values
pub mod Short
pub mod Names
pub mod TheoremC
pub mod Published
pub mod Examples
