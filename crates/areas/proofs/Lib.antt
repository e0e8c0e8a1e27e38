pub mod Facts
pub mod Sums
pub mod LesserPressures
pub mod Fits
