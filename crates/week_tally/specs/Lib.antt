-- The figures of nodes.
pub mod Gathered
pub mod Figures
pub mod Rows
pub mod Seen
