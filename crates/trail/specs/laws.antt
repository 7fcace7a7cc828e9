-- What is proved of the trail.
pub mod Trail
pub mod Opens
