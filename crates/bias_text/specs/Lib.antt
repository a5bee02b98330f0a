-- What is answered of a text's biases, with no second answer.
pub mod Biased
