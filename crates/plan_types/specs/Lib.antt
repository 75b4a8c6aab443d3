pub mod Expressions
pub mod Frames
pub mod Plans
pub mod Statements
