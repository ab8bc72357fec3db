pub mod Slices
pub mod Pixels
pub mod HowPairs
