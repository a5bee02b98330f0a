-- The header record and its texts as numbers and bytes.
pub mod Numbers
