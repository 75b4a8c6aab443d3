pub mod AllLemmas
pub mod Different
pub mod GraphLemmas
pub mod KnownLemmas
pub mod NearMemberLemmas
pub mod SoundLemmas
