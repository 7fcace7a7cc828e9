-- What is proved of the published reading.
pub mod Sound
pub mod Leader
pub mod Canonical
pub mod Told
pub mod TheoremA
