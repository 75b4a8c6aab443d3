pub mod Answered
pub mod Raising
pub mod Refusing
pub mod Unwinding
