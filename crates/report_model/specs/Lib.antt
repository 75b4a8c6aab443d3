pub mod Drills
pub mod Pairs
pub mod Reports
