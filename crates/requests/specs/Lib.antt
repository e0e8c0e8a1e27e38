pub mod Faults
pub mod Words
pub mod Asked
pub mod Decoded
