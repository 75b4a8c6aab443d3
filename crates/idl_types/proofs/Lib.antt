pub mod ChainLaws
pub mod StepLemmas
