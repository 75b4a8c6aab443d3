pub mod LeastLemmas
pub mod LoopLemmas
pub mod NumberLemmas
pub mod OrderLemmas
