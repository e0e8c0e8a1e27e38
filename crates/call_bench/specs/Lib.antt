pub mod Repeated
