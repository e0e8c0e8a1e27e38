pub mod Pressures
pub mod RowsOut
pub mod InOrder
pub mod Called
