-- What is answered of a text and six lent areas; and of a text alone, what they need.
pub mod Outcome
pub mod Measures
