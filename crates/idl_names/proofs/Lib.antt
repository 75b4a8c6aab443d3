mod AloneLemmas
mod CollectedLemmas
mod DefLaws
mod FaultLemmas
mod FloatLemmas
mod KeyLaws
pub mod LookupLemmas
mod MarkLemmas
pub mod NameLaws
mod OpenLemmas
pub mod PathLaws
mod PathLookups
mod RefusedLemmas
mod ResolveLemmas
mod SlotLemmas
pub mod StandLemmas
mod TellLemmas
mod TextLaws
pub mod UsedLemmas
mod WayLaws
