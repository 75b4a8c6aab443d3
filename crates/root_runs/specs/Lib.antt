pub mod Keeping
pub mod Outs
