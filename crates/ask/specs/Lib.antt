-- The question and its answer.
pub mod Sun
pub mod Turned
pub mod Ask
pub mod Summed
pub mod Looked
pub mod Sample
