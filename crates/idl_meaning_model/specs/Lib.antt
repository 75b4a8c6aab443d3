pub mod ConstantsMeant
pub mod Declarations
pub mod FromFiles
pub mod Meaning
pub mod NameFaults
pub mod Scopes
pub mod Uses
