-- The finding that a question asks for, and how the question is answered: no promise of an entry point mentions it.
pub mod Asked
pub mod Reply
