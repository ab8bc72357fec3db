pub mod Marked
pub mod AnyRows
pub mod Rows
pub mod Redrawing
pub mod Registers
