-- The value at one node.
pub mod Value
pub mod Nodes
pub mod Units
