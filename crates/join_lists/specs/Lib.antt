-- Two lists one behind the other.
pub mod Lists
