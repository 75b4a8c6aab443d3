pub mod Meeting
pub mod Over
pub mod Sums
pub mod Tables
pub mod Twins
pub mod Walking
