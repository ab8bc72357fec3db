pub mod Codes
pub mod Bytes
pub mod Texts
pub mod Inks
pub mod Drawn
