pub mod Answers
pub mod Effects
pub mod Going
pub mod Scenes
pub mod Statements
pub mod Types
