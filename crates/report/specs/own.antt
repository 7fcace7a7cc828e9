-- How the text is written, rule by rule: no promise of an entry point mentions it.
pub mod Pages
