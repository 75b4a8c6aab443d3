pub mod Depths
pub mod Grammar
pub mod GrammarReading
pub mod ParseVerdicts
pub mod PlacedTokens
pub mod Places
pub mod Trees
pub mod Values
