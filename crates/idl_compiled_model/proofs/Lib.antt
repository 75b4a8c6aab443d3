pub mod ApartCounts
pub mod Leaves
pub mod OfFiles
pub mod SpelledCounts
pub mod VerdictLaws
pub mod Weighing
