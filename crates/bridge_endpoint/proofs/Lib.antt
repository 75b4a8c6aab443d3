pub mod KeptLaws
mod Crossing
mod EntryLemmas
mod BeginLemmas
mod FeedLemmas
mod ApplyLemmas
mod DrainLemmas
mod EndLemmas
mod MakingLemmas
mod OpeningLemmas
mod GoingLemmas
mod BegunLemmas
mod JournalLemmas
