pub mod DefaultLemmas
pub mod FitLemmas
pub mod Parts
