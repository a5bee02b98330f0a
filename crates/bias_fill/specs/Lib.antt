-- Biases in three lent areas, and the scan that stores them.
pub mod Flat
pub mod Filled
