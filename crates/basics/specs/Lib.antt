pub mod Choice
pub mod Bits
pub mod Below
pub mod Parts
