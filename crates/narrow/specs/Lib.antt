pub mod Codes
pub mod Pixels
pub mod HowTens
pub mod HowText
pub mod HowInks
