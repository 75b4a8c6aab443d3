pub mod BareLemmas
pub mod MarkLemmas
