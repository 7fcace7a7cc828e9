-- What a check of a sheet lists and prints are the violations in the published reading, source 000. Definitions here; the theorem in laws.
pub mod Violations
pub mod Verdict
pub mod laws
