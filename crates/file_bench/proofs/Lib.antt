pub mod Again
pub mod Numbers
