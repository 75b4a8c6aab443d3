pub mod BitLaws
pub mod LevelLaws
pub mod MemberLaws
