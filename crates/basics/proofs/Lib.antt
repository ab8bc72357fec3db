pub mod Choice
pub mod Bits
pub mod Computed
pub mod Few
pub mod Below
pub mod Parts
pub mod Filled
pub mod Made
