-- How the words of a store go to their places: no promise of an entry point mentions it.
pub mod Carry
pub mod Small
