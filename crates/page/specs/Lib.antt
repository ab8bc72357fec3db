pub mod Codes
pub mod HowCodes
pub mod Halves
pub mod Inputs
pub mod Marks
pub mod HowHalves
pub mod Asked
