-- What is asked of two joined map sets.
pub mod Calls
