-- The root of the definitions and the laws.
pub mod Form
pub mod Read
pub mod Show
pub mod Columns
pub mod Bytes
pub mod Rows
