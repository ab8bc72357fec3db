pub mod Triples
pub mod Pointers
pub mod HowPointers
pub mod Places
pub mod Narrow
pub mod Addresses
pub mod Slices
pub mod Rows
