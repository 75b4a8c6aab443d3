pub mod Answering
pub mod Entering
pub mod Journals
pub mod Kept
pub mod Refusing
pub mod Telling
