-- Laws that rest on a definition that a must-fail edit turns. Assumes nothing.
pub mod Means
pub mod Answers
pub mod Demand2
