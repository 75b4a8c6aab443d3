pub mod Agreement
pub mod Loops
pub mod Readings
pub mod Relations
pub mod Verdicts
