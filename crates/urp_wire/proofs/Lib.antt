pub mod Fronts
pub mod Lengths
pub mod LevelLaws
pub mod Loops
pub mod Names
pub mod Sendings
pub mod Texts
