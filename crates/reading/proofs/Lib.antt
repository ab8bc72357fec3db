pub mod Marking
pub mod Stable
pub mod Several
pub mod Fitted
