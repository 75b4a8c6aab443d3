pub mod AssignableLemmas
pub mod LevelLemmas
pub mod MemberLemmas
pub mod NearLemmas
pub mod RootLemmas
pub mod TypeTextLemmas
