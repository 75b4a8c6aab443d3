pub mod Climbing
pub mod Known
pub mod Occurring
pub mod OwnNames
pub mod Seen
pub mod Standing
pub mod Trail
