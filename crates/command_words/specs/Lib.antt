pub mod ByClap
pub mod Forms
pub mod Meaning
pub mod Names
pub mod Numbers
pub mod Parts
