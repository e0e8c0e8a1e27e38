pub mod Answered
pub mod Fetched
pub mod Writing
