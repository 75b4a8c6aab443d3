pub mod HomeLemmas
pub mod NameLemmas
pub mod PositionLemmas
pub mod SupportLemmas
