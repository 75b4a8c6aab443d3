pub mod Expressions
pub mod Members
pub mod Names
pub mod Tokens
pub mod Trees
pub mod Types
