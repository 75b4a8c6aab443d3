pub mod First
pub mod Graphs
