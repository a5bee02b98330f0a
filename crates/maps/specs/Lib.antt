-- What the code says of the text from a line's start on.
pub mod Turns
