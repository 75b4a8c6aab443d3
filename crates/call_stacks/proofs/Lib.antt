pub mod BirthLaws
pub mod EntryLaws
pub mod PlaceLaws
pub mod ReadyLaws
pub mod StackLaws
pub mod TopLaws
