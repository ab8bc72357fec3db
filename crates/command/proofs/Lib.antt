pub mod Asked
pub mod Listed
