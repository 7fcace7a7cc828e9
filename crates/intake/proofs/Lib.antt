-- Lemmas on what a reader loses.
mod Laws
