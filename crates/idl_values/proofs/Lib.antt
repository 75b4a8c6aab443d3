pub mod KeyLemmas
pub mod LoopLemmas
pub mod OrderLemmas
pub mod PlaceLemmas
pub mod ToldLemmas
pub mod ValueLaws
pub mod WorkLemmas
