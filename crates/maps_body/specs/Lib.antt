-- What a label stands for among the maps.
pub mod ByLabel
