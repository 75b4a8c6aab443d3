pub mod GrammarLaws
pub mod NumeralLaws
pub mod SoundLaws
