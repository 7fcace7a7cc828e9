-- Whole sheets: what they say, and what is promised of reading them. Definitions here; the code's own records in own, what is proved in laws.
pub mod Said
pub mod Meant
pub mod Reading
pub mod Promise
pub mod Demand3
pub mod Edition
pub mod own
pub mod laws
