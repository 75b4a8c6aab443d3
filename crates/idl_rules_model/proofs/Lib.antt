pub mod BaseLaws
pub mod BrokenLaws
pub mod CircleLaws
pub mod FailingLaws
pub mod KeptLaws
pub mod LeastLaws
pub mod NameLaws
pub mod NamedLaws
pub mod OneWayLaws
pub mod RaisedLaws
mod Rows
pub mod ServiceLaws
pub mod TypeBackLaws
pub mod TypeLaws
pub mod TypedefLaws
pub mod ValueCircleLaws
pub mod ValueLaws
pub mod VerdictLaws
