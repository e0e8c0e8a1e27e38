pub mod Lists
pub mod Codec
pub mod TypedSlots
pub mod Sums
pub mod Grounds
pub mod WaysOut
pub mod Nexts
