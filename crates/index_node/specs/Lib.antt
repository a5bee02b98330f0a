-- What is answered by an index and its text, as the code has it.
pub mod Told
