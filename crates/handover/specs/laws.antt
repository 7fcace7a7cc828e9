-- What is proved of a text in a lent room.
pub mod Room
