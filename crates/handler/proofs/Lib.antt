pub mod Stepping
pub mod Answering
pub mod Sessions
pub mod Examples
