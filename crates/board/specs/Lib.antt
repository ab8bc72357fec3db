pub mod Boards
pub mod Numbers
