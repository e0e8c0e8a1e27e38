pub mod Arguments
pub mod Links
pub mod Demand1
pub mod Demand3
pub mod Demand2
pub mod SameOutcomes
pub mod MorePressure
pub mod Exists
