pub mod Columns
pub mod Tens
pub mod Steps
pub mod PlainCells
