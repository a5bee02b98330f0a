-- One map in a lent output.
pub mod OneMap
pub mod Ready
