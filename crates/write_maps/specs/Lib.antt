-- The maps of all kinds in a lent output.
pub mod KindRows
pub mod Ready
