pub mod Totals
pub mod Counts
pub mod Makers
pub mod Marks
pub mod Keeping
pub mod Turning
pub mod Numbering
pub mod Passing
