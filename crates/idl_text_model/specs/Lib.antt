pub mod LexVerdicts
pub mod Numbers
pub mod Pieces
pub mod Readings
pub mod Slices
pub mod Tokens
