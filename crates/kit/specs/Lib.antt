-- The root of the definitions.
pub mod Answer
pub mod Range
pub mod Integer
pub mod Truth
pub mod Lists
