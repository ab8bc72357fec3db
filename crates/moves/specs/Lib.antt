pub mod Onward
pub mod Spans
