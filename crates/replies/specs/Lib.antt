pub mod Help
pub mod MessageText
