-- How a writer goes along the findings: no promise of an entry point mentions it.
pub mod Trail
