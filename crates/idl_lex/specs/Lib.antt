pub mod Lexing
pub mod Runs
