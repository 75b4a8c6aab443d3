pub mod Doing
pub mod Joined
pub mod Marks
pub mod Playing
pub mod Worlds
