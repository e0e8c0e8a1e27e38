pub mod Reach
pub mod Deciding
