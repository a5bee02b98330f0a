-- The nearest whole number.
pub mod Round
pub mod Rounded
