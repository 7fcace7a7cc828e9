-- The test of closedness: what it asks of the rows stands in own, that this is closedness in laws.
pub mod own
pub mod laws
