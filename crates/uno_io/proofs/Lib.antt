pub mod Finding
pub mod Pieces
pub mod Portions
pub mod Rounds
