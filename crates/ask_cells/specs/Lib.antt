-- The cell of a place.
pub mod Place
pub mod Found
