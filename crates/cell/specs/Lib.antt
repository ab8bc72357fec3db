pub mod Cells
pub mod HowCells
