pub mod ApartLaws
pub mod EachLaws
pub mod FaultLaws
pub mod RegistryLaws
pub mod SortedLaws
