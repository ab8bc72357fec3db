pub mod Going
pub mod Spans
pub mod Pointers
