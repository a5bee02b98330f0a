-- The root of the definitions.
pub mod End
pub mod Calendar
pub mod Inner
