pub mod Naming
pub mod Settings
