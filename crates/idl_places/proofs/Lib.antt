mod ClassLemmas
mod LeastLemmas
pub mod Steps
pub mod TestLemmas
mod TypeLemmas
mod ValueLemmas
