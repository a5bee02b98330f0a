-- An index and what it answers, as they cross to other languages.
pub mod Crossed
pub mod IndexExported
