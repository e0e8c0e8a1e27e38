pub mod Reaching
pub mod Bounds
