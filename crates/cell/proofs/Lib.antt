pub mod Codes
pub mod Resolutions
