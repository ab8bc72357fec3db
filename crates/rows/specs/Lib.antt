pub mod Rows
pub mod HowRows
