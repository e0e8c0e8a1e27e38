pub mod Numbers
pub mod Timed
