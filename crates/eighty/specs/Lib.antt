pub mod Rows
pub mod HowEighty
