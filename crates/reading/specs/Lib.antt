-- The reading of a text as a function on lists, and that it is exactly what the layout's rules make.
pub mod Feed
pub mod Fields
pub mod Maps
pub mod Head
pub mod Read
pub mod Refusals
