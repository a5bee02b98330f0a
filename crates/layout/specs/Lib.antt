-- The layout: rules that make texts from map sets, with no reader in them.
pub mod Text
pub mod Records
pub mod Labels
pub mod Names
pub mod Layout
pub mod Samples
