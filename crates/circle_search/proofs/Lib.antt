pub mod Rows
pub mod Parts
pub mod Entering
pub mod Looking
pub mod Leaving
pub mod Ends
pub mod Work
