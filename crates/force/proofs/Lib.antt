pub mod IncidenceFactor
pub mod FaceSums
pub mod Quotient
pub mod Loads
pub mod Greatest
pub mod Bounded
pub mod Reported
