-- Canonical text in a lent output.
pub mod Write
pub mod Ready
