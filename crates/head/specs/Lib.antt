-- What the code hands back of a header, by what `reading` says of the text.
pub mod Opened
pub mod Past
