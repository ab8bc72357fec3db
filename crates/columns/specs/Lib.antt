pub mod HowColumns
pub mod HowTens
