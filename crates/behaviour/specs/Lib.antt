pub mod Answers
pub mod Calling
pub mod Effects
pub mod Functions
pub mod Roots
pub mod Running
pub mod Variables
