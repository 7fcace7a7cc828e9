-- Bytes, lines, fields, names, dates, numbers as text. Definitions here; what is proved of them in laws, what only the code speaks of in own.
pub mod Bytes
pub mod Split
pub mod Name
pub mod Date
pub mod Text
pub mod own
pub mod laws
