pub mod Puts
pub mod Towers
pub mod Erects
pub mod Winds
pub mod WindPut
pub mod Built
pub mod Rules
