pub mod Codes
pub mod Stretches
