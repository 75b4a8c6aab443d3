pub mod CutLaws
pub mod FeedLaws
pub mod GivenLaws
pub mod HeaderLaws
pub mod RunLaws
pub mod StandingLaws
pub mod RefusedLaws
