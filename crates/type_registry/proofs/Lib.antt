pub mod InLineLemmas
pub mod MetLemmas
pub mod SeekLemmas
pub mod TaskLemmas
pub mod WalkLemmas
