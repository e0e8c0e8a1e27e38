pub mod Cases
pub mod Digest
