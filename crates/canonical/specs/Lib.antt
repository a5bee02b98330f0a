-- Canonical text.
pub mod Canon
pub mod CanonOf
pub mod Meaning
