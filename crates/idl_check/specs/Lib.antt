pub mod Apart
pub mod Asked
pub mod Broken
pub mod Judging
pub mod Meant
