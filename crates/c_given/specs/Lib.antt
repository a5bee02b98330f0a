-- The header record and texts that numbers and bytes stand for.
pub mod Given
