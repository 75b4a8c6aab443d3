pub mod Lending
pub mod Names
pub mod Threads
