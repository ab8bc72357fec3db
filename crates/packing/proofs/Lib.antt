pub mod Parts
pub mod Boards
pub mod Layouts
pub mod RoundTrip
