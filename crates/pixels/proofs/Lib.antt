pub mod Attributes
pub mod Heights
pub mod Bytes
pub mod Drawn
