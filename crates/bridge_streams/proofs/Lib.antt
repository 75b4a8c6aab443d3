pub mod Crossing
mod CuttingLemmas
mod DrainingLemmas
mod HeaderLemmas
mod QueueLemmas
mod TakingLemmas
mod WaitingLemmas
