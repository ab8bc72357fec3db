pub mod Rows
pub mod Redraws
