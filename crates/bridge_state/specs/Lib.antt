pub mod EndSides
pub mod Hearing
pub mod Reading
pub mod Roots
pub mod Telling
pub mod Threads
pub mod Undoing
