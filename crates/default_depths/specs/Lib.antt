pub mod Depths
pub mod Table
