pub mod Depths
pub mod Fits
pub mod Opened
pub mod Parts
pub mod Pieces
pub mod Tests
