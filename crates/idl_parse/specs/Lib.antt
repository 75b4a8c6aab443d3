pub mod Accessors
pub mod Flags
pub mod Levels
pub mod Parsing
pub mod Reading
pub mod Signatures
