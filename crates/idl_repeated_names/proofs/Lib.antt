pub mod AlikeLaws
mod ChainLemmas
mod KeyLemmas
mod MeetingLemmas
mod NameLemmas
mod OwnerLemmas
mod RepeatedLemmas
pub mod SecondLaws
mod SumsLemmas
mod TwinsLemmas
mod WalkLemmas
mod WayLemmas
