pub mod Answering
pub mod Doing
pub mod Ends
pub mod Running
pub mod Serving
pub mod Turning
