pub mod Fraction
pub mod Rooted
pub mod Number
pub mod Sum
pub mod Surd
