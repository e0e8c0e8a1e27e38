pub mod Stored
pub mod Written
