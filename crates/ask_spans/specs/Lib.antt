-- The maps of a second.
pub mod Time
pub mod Spans
