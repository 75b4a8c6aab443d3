mod FieldLemmas
mod FlagLemmas
mod NumberLemmas
mod RootLemmas
pub mod SameLaws
mod ServiceLemmas
mod Steps
