-- What a line of a header says of biases, by what the code looks at.
pub mod Lines
