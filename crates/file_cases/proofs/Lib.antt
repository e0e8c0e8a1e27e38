pub mod Letters
pub mod Mixing
