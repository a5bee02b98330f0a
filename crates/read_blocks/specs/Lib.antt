-- What the code answers of a block's values, by what `reading` says of them.
pub mod Blocks
pub mod Steps
