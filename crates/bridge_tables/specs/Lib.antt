pub mod Answering
pub mod Counted
pub mod Covered
pub mod Drained
pub mod EndTables
pub mod Fields
pub mod Going
pub mod Roots
