-- The root of the definitions.
pub mod Put
pub mod Starts
pub mod Block
