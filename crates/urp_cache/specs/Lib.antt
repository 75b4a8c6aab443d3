pub mod ReadCache
pub mod SendCache
