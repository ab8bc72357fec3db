pub mod Drawn
pub mod Alike
pub mod Phases
pub mod Registers
