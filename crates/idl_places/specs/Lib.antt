pub mod Classes
pub mod Methods
pub mod Places
pub mod Setters
pub mod Standings
pub mod ValuedNames
