pub mod Pieces
pub mod Saying
pub mod Summing
pub mod Totals
