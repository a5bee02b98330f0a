-- What a row brings.
pub mod Brings
