-- The bias reading row by row, as the code goes through it.
pub mod Walk
pub mod Marks
pub mod Held
pub mod Turns
pub mod Judged
