pub mod Accesses
pub mod Calls
pub mod Leaving
pub mod Rows
pub mod Runs
pub mod Refusals
