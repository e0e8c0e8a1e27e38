pub mod Loading
pub mod WaysOut
