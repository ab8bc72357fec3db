pub mod Slices
pub mod Codes
