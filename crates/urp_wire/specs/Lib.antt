pub mod Gives
pub mod Levels
pub mod MeantTexts
pub mod Written
