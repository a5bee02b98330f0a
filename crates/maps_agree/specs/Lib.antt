-- What the maps' records must agree with.
pub mod Agreement
