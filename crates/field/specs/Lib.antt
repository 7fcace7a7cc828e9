-- The fields of a line: the words of a sheet, what is due in a field, the declared names, and what is wrong with a field. Definitions here; the code's own records in own, what is proved in laws.
pub mod Words
pub mod Due
pub mod Names
pub mod own
pub mod laws
