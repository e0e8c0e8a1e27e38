pub mod Copied
pub mod Numbers
pub mod Text
pub mod Appends
pub mod Hex
pub mod Digest
pub mod Input
