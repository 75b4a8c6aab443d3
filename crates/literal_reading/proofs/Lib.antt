pub mod NameLemmas
pub mod OrderLemmas
pub mod ReadLemmas
pub mod ScanLemmas
pub mod TypedLemmas
