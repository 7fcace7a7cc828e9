-- What is proved of a sheet's rules.
pub mod Printed
pub mod Page
pub mod Short
