pub mod AlikeLaws
pub mod CircleLaws
pub mod KeptLaws
pub mod LeastLaws
pub mod LoopLemmas
pub mod RankLemmas
pub mod ThereLemmas
pub mod WayLaws
