-- What is answered of a text and the areas lent for its index.
pub mod Making
