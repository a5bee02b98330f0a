-- The second scan in code: what its functions promise.
pub mod Rows
pub mod Scan
pub mod Filled
