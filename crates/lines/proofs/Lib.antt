pub mod Underlines
pub mod Drawn
