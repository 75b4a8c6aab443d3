pub mod Pair
pub mod Rows
pub mod Stubs
pub mod Bags
pub mod Holdings
pub mod Proxies
pub mod Objects
