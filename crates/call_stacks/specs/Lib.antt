pub mod Births
pub mod Rows
pub mod Tops
pub mod ValueCodes
pub mod WaitingCalls
