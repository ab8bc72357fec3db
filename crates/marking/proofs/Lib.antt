pub mod Unmarked
pub mod Ends
pub mod Falls
pub mod Loops
pub mod Fits
pub mod Lists
pub mod Apart
pub mod Changes
