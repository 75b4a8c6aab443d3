pub mod Members
pub mod NearBases
