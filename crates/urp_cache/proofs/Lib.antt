pub mod Steps
pub mod Tables
pub mod Uses
pub mod Views
