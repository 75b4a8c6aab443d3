pub mod Bases
pub mod Frames
pub mod Functions
pub mod Met
pub mod Own
pub mod Tasks
