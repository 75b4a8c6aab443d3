pub mod KindTests
pub mod NearMembers
pub mod Rules
pub mod Wanted
