pub mod Coefficients
pub mod Prepared
pub mod FaceForce
pub mod Loaded
pub mod Greatest
