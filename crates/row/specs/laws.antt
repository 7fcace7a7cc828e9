-- What is proved of rows.
pub mod Bit
pub mod Count
pub mod Total
pub mod Mapped
pub mod Rows
pub mod Diagonal
pub mod Gather
pub mod Together
pub mod Column
pub mod Pick
pub mod Shared
pub mod Marks
pub mod Common
