pub mod Colours
pub mod Ranks
