pub mod Circles
pub mod Ranks
pub mod There
