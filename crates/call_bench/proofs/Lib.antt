pub mod Repeating
pub mod First
