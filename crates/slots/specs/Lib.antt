pub mod Held
pub mod Promises
pub mod Nexts
