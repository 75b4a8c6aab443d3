pub mod Holders
pub mod Layout
pub mod Times
