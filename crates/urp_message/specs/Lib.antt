pub mod Headers
pub mod Listening
pub mod Messages
pub mod Params
pub mod Saying
pub mod Speaking
pub mod Waiting
