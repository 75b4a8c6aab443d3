pub mod ModuleLemmas
pub mod TokenLemmas
