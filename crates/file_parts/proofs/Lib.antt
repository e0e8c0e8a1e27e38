pub mod Each
pub mod Lengths
pub mod Marks
pub mod Order
pub mod SoFar
