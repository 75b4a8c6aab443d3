pub mod LineReading
pub mod Parts
pub mod TermReading
pub mod TextReading
