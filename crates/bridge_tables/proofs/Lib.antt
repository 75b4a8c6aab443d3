mod AnsweringLemmas
mod CountLemmas
mod Counts
mod CoverSteps
mod FieldLemmas
pub mod LastingLemmas
mod LettingLemmas
mod MakingLemmas
mod ProxyCounts
mod PushLemmas
mod ReferringLemmas
mod RootLemmas
