-- What the tests ask: no promise of an entry point mentions it.
pub mod Below
pub mod Test
