pub mod Tests
pub mod Blocks
pub mod Characters
pub mod Places
