-- A text is handed over in the room that a host lends. The definition here; what only the code speaks of in own, what is proved in laws.
pub mod Room
pub mod own
pub mod laws
