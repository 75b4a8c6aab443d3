pub mod Calls
pub mod HeaderParts
pub mod Headers
pub mod Runs
pub mod Standing
pub mod Streams
