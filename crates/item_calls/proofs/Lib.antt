pub mod Numbers
pub mod Recounted
pub mod WaysOut
pub mod ClosingUp
pub mod Downs
pub mod Nexts
pub mod Rules
