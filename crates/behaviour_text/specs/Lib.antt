pub mod Nesting
pub mod Reading
pub mod Reasons
pub mod RootPieces
pub mod Steps
