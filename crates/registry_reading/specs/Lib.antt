pub mod Feeds
pub mod Heads
pub mod Judging
pub mod Members
pub mod Readers
pub mod Taken
pub mod Verdicts
pub mod Views
