pub mod Kept
pub mod Marks
pub mod Objects
pub mod Tables
