-- What the code answers of a line of values, by what `reading` says of it.
pub mod Values
pub mod Quick
pub mod Bare
