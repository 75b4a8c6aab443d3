pub mod Calls
pub mod Files
pub mod Fronts
pub mod MemFiles
pub mod MemSink
pub mod MemSource
pub mod Sizes
pub mod Streams
