pub mod Checking
pub mod Errors
pub mod Refusing
