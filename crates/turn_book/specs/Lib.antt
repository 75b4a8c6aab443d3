pub mod History
pub mod Views
pub mod Steps
pub mod Ruled
pub mod Passes
pub mod Lending
