pub mod Marks
pub mod Parts
pub mod Stored
