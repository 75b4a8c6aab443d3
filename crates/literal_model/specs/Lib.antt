pub mod Literals
pub mod Readings
pub mod Shapes
pub mod Verdicts
