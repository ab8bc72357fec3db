pub mod Tens
pub mod Lines
pub mod Drawn
pub mod Registers
