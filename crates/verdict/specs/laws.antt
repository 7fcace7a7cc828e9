-- What is proved of the verdict on a sheet.
pub mod Declared
pub mod Meant
pub mod Told
pub mod Turn
pub mod Violations
