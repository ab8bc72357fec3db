pub mod Lengths
pub mod Lines
pub mod Modes
pub mod Origins
pub mod Refusals
