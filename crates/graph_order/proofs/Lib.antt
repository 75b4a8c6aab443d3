pub mod EndLaws
mod WalkLemmas
