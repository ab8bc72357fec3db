pub mod Bytes
pub mod Lengths
pub mod Modes
pub mod Origins
pub mod Refusals
